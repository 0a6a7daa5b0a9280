pub mod Nets
pub mod Progress
pub mod Answers
