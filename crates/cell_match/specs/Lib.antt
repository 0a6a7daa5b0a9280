pub mod Places
pub mod Cells
pub mod Computes
pub mod Matches
