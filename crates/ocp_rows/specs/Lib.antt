pub mod Placement
pub mod Length
pub mod Tracks
