pub mod Cells
pub mod Registers
pub mod Refused
pub mod Room
pub mod Planned
