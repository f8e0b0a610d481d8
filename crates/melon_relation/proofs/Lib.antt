pub mod Compared
pub mod Histories
pub mod Answered
