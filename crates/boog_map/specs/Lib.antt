pub mod Reached
pub mod Netlist
pub mod Tied
pub mod Draft
pub mod Mapped
