pub mod Gates
pub mod Classes
pub mod Inserted
