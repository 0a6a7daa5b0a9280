pub mod Files
pub mod Counts
pub mod Seen
pub mod Shelf
pub mod Sink
pub mod Memory
