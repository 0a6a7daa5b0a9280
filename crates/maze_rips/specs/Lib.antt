pub mod Run
pub mod Answers
pub mod Paths
pub mod Progress
pub mod Law
