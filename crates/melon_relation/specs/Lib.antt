pub mod Faults
pub mod Relations
pub mod Targets
pub mod Children
pub mod Watching
pub mod Inside
pub mod Laws
