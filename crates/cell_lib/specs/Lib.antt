pub mod Files
pub mod Load
pub mod Cells
pub mod Causes
pub mod Library
pub mod Laws
