pub mod HasPort
pub mod Pins
pub mod Words
mod Ordered
mod Symbols
mod Plain
mod Modelled
mod Shown
mod Once
mod Declared
mod Made
mod Supplied
mod Placing
mod Tied
mod Models
mod Written
pub mod Supplies
