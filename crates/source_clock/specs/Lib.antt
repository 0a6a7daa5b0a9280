pub mod Operands
pub mod Clocking
