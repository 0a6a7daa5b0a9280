pub mod Tokens
pub mod Filled
pub mod Text
pub mod Pieces
pub mod Laws
