mod Signals
mod Counted
pub mod Codes
mod Few
mod Texts
pub mod Registers
pub mod Sources
pub mod Writing
