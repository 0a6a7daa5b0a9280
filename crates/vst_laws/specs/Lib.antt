pub mod Writable
pub mod Again
