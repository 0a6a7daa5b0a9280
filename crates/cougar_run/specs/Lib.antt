pub mod Words
pub mod Cougar
pub mod Laws
