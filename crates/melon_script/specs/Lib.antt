pub mod Forms
pub mod Inside
pub mod Lines
pub mod Printed
pub mod Script
pub mod Seen
pub mod SeenLine
