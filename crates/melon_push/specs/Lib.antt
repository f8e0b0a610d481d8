pub mod Settling
pub mod Fetching
pub mod Laws
