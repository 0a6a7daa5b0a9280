pub mod Orders
pub mod Neighbours
pub mod Merged
pub mod Segments
pub mod Tests
pub mod Searching
pub mod Whole
pub mod Foots
