pub mod Tools
pub mod Usage
pub mod Answers
pub mod Laws
