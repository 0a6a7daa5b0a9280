pub mod Netlist
pub mod Laws
