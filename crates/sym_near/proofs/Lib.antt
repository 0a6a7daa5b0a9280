pub mod Sweeps
pub mod Orders
pub mod Enters
pub mod Listed
