pub mod Named
pub mod Pieces
pub mod Meaning
pub mod Law
