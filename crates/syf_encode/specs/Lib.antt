pub mod Codes
pub mod Pieces
