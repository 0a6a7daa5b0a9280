pub mod Over
mod Meeting
pub mod Giving
pub mod Trailing
pub mod Reading
pub mod Wording
pub mod Marking
