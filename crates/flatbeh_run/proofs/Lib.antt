pub mod Refusing
pub mod Reading
pub mod NetlistWords
mod FewBits
