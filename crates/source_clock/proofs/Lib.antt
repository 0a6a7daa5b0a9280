pub mod Chains
pub mod Joining
pub mod Steady
pub mod Texts
