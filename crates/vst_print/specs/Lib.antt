pub mod Groups
pub mod Structure
pub mod Nets
pub mod Written
pub mod Pieces
pub mod Placed
pub mod Says
pub mod Text
