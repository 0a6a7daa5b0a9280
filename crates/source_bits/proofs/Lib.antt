pub mod Halves
pub mod Operators
pub mod Ranging
pub mod Standing
pub mod Leaves
pub mod Choosing
pub mod DrivenBits
pub mod Clocked
