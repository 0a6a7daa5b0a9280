pub mod Routed
pub mod Terminals
pub mod Answers
pub mod Marks
pub mod Law
