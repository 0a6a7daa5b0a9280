pub mod Optimised
pub mod Rebuilt
