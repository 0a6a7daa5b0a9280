pub mod Words
pub mod Proof
