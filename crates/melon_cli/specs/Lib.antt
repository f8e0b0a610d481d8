pub mod Codes
pub mod Fixed
pub mod Runs
