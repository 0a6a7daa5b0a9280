pub mod Rows
pub mod Refined
