pub mod Shown
pub mod Links
pub mod Feet
