pub mod Each
pub mod Named
pub mod Sounding
pub mod TidyBack
pub mod Utf8
