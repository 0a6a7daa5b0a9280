mod Exchanged
mod Lists
pub mod Cells
pub mod Fitting
mod Reserving
mod Driving
mod Pins
mod Grown
mod Views
mod Nets
