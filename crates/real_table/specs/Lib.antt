pub mod Fields
pub mod Words
pub mod Lines
pub mod Bounds
pub mod Process
pub mod Reading
