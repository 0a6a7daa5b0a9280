pub mod Free
pub mod Cycles
pub mod Between
