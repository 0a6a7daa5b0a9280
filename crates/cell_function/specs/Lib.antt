pub mod Function
pub mod Row
pub mod Timing
