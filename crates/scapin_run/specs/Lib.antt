pub mod Words
pub mod Scapin
pub mod Laws
