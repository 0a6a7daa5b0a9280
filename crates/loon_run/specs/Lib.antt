pub mod Words
pub mod Loon
pub mod Laws
