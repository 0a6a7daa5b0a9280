pub mod Asked
pub mod Words
pub mod RippedText
pub mod Rip
