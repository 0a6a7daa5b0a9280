pub mod Generate
pub mod Bounds
