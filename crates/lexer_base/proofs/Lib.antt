pub mod Saturating
pub mod Reading
