pub mod Numbering
pub mod Merged
pub mod Pieces
pub mod Runs
pub mod Fewest
