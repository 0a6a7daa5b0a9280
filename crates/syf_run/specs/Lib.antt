pub mod Words
pub mod Syf
pub mod Laws
pub mod EachMachine
