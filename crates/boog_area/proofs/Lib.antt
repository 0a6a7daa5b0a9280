pub mod Listing
pub mod TreeKinds
pub mod Standing
pub mod Matches
pub mod Sums
pub mod Least
pub mod Given
