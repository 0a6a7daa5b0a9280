pub mod Breaches
pub mod Excuses
