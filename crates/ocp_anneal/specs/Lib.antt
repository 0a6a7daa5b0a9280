pub mod Improved
pub mod Cells
pub mod Rows
