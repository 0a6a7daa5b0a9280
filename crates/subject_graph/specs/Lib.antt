pub mod Drawn
pub mod Subject
pub mod Code
pub mod Stages
