mod Splitting
mod Using
mod Listing
pub mod Once
