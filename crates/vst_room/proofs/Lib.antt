mod Tokens
mod Mapped
mod Ports
pub mod Cells
mod Room
