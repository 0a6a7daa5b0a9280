pub mod Names
pub mod Reading
pub mod Stopping
pub mod Rows
pub mod Completing
pub mod Telling
