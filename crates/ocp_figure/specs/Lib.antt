pub mod Labels
pub mod Stands
pub mod Answers
