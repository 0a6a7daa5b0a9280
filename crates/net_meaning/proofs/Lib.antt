pub mod Runs
pub mod Plain
pub mod OneNetlist
pub mod Lawful
