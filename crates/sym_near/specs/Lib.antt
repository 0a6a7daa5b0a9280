pub mod Related
pub mod Sweep
