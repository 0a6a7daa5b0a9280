pub mod Names
pub mod Bits
pub mod Language
pub mod Nested
pub mod EntityLanguage
