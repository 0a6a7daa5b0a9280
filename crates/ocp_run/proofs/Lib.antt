mod Ports
mod Cells
mod Reading
pub mod Refusing
