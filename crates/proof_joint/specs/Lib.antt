pub mod Naming
pub mod Clock
pub mod Compared
pub mod Apart
pub mod Together
pub mod Joint
pub mod Bits
