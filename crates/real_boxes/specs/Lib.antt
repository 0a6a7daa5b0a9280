pub mod Marks
pub mod Boxes
pub mod Metals
pub mod Refused
pub mod Bounds
pub mod File
pub mod Shapes
