pub mod Words
pub mod Boog
pub mod Laws
