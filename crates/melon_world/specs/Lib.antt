pub mod Handled
pub mod Inside
