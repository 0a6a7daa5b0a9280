pub mod Wired
pub mod Cells
pub mod Chain
pub mod Ports
pub mod Scene
pub mod Meets
pub mod Filling
pub mod Scanning
