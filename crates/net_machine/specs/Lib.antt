pub mod Signals
pub mod Body
pub mod Known
pub mod Bits
pub mod Gathered
pub mod Step
pub mod Answers
pub mod Runs
