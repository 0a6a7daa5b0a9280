pub mod Bytes
pub mod Lexical
pub mod Listing
pub mod Whole
