pub mod Netlist
pub mod Behaviour
pub mod Agreement
pub mod Well
pub mod Buffers
pub mod Order
pub mod Breaches
pub mod Laws
