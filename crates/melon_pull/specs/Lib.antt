pub mod Incoming
pub mod Listing
pub mod Laws
