pub mod Words
pub mod Asimut
pub mod Laws
pub mod Netlist
