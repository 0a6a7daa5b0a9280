pub mod Cells
pub mod Mapping
pub mod Naming
pub mod Refusing
pub mod Sizes
pub mod Short
pub mod Bounds
