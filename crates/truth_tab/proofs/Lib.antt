pub mod Lists
pub mod Words
pub mod Filling
pub mod Patterns
pub mod Same
