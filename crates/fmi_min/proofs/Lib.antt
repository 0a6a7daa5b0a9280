pub mod Listing
pub mod Picking
pub mod Meeting
pub mod Stepping
pub mod Closing
pub mod Telling
pub mod Keeping
