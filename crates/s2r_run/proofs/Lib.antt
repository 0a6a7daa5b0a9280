pub mod Refusing
pub mod Numbers
