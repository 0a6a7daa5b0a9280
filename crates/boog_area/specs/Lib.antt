pub mod Covers
pub mod Refused
