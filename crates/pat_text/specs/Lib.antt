pub mod Spelled
pub mod Patterns
pub mod Reading
pub mod Answers
pub mod Laws
