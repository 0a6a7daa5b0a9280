pub mod Filling
pub mod Once
