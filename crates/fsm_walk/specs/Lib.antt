pub mod Trail
pub mod Step
pub mod Reads
pub mod Words
