pub mod Changing
pub mod Chosen
mod Examples
pub mod Histories
pub mod Lookups
pub mod Reading
pub mod Same
pub mod Standings
pub mod Turning
