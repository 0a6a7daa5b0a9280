pub mod Expansion
pub mod Walk
pub mod Turn
