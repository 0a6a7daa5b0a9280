pub mod Expressions
pub mod Written
pub mod Writable
pub mod Pieces
pub mod Nesting
pub mod Placed
pub mod Said
