pub mod Words
pub mod Fmi
