pub mod Follows
pub mod ById
pub mod Now
pub mod Told
mod Examples
pub mod Last
