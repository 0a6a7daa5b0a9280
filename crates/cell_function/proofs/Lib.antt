pub mod Rest
pub mod Values
