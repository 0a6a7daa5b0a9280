pub mod Drives
pub mod Choices
