pub mod Real
pub mod Refused
pub mod Cif
