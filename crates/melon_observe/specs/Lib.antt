pub mod Members
pub mod Patches
pub mod Gap
pub mod Held
pub mod Inside
pub mod Journals
