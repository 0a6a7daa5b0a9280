pub mod Words
pub mod Boom
