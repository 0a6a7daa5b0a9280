pub mod Cover
pub mod Tight
pub mod Kept
pub mod Uses
