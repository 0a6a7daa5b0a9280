pub mod Places
pub mod Netlist
pub mod Named
pub mod Frame
pub mod Joins
pub mod Checks
pub mod Links
