pub mod Roots
pub mod Asked
pub mod Binding
pub mod Shared
pub mod Listing
