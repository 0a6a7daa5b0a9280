pub mod Extracted
pub mod Refused
pub mod Stages
pub mod Laws
