pub mod Enough
pub mod Known
pub mod Numbered
