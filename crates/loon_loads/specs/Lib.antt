pub mod Sinks
pub mod Loads
