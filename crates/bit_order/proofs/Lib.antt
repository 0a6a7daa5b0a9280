pub mod Rounds
pub mod Walking
pub mod Turning
