pub mod Kept
pub mod Assembling
pub mod Checking
