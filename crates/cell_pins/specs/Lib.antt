pub mod Pins
pub mod Follows
pub mod Table
pub mod Marks
