pub mod Checked
pub mod Entering
pub mod Listing
