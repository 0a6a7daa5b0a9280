pub mod Words
pub mod Lvx
