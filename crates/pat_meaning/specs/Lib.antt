pub mod Columns
pub mod Circuit
pub mod Simulation
pub mod Answers
