pub mod Vectors
pub mod Moves
pub mod Table
pub mod Tests
pub mod Refused
