pub mod Views
pub mod Due
pub mod Turns
pub mod Members
pub mod Standing
pub mod Parents
pub mod Laws
