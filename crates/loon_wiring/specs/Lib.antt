pub mod Repeaters
pub mod Stages
