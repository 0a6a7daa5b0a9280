pub mod Telling
pub mod Congruent
pub mod Routed
pub mod Pins
pub mod Small
