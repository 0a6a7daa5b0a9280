pub mod Free
pub mod Runs
pub mod Meaning
pub mod Law
