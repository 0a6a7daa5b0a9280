pub mod Vectors
pub mod Numbering
pub mod Formulas
pub mod Driven
