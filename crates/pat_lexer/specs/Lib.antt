pub mod Lexical
pub mod Listing
