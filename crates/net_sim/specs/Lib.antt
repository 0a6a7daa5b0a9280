pub mod Circuit
pub mod Answers
