pub mod Words
pub mod Lexical
pub mod Listing
