pub mod Gates
pub mod Scan
pub mod Path
pub mod Meaning
pub mod Laws
