pub mod Improved
pub mod Numbered
pub mod Nets
pub mod Law
