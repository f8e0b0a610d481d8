pub mod Contents
pub mod Opening
pub mod Ours
pub mod Statements
pub mod Tables
pub mod Telling
pub mod Transactions
