pub mod Names
pub mod Reaching
pub mod Turns
pub mod Stacks
