pub mod Refusing
pub mod Lines
