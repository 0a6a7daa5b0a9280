pub mod Tokens
pub mod Marks
pub mod Grammar
pub mod Outcome
pub mod Answers
pub mod Unique
