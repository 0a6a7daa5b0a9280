pub mod Rips
pub mod Answers
pub mod Law
