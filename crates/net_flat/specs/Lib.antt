pub mod Parts
pub mod Nodes
pub mod Flat
pub mod Answers
pub mod Taken
pub mod Renamed
