pub mod Names
pub mod Values
pub mod Known
pub mod Solve
pub mod Built
pub mod WholeSize
pub mod Runs
