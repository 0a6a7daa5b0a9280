pub mod Starts
pub mod Marked
pub mod Rest
pub mod Listed
pub mod Beside
pub mod Ports
pub mod Sound
pub mod Ended
mod Deciding
pub mod Tables
