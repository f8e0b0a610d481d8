pub mod Members
pub mod WireBack
pub mod KeyOrder
pub mod Ascent
pub mod KeyedLists
pub mod HaveIds
