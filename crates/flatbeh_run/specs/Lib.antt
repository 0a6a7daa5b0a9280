pub mod Words
pub mod Flatbeh
pub mod Laws
