pub mod Laws
pub mod Declared
