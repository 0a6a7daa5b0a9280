pub mod Sinks
pub mod Wired
pub mod Limited
pub mod Starts
pub mod Building
pub mod Laws
pub mod Nets
pub mod Gated
