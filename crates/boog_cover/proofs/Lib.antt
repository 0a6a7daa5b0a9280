pub mod Choosing
pub mod Standing
pub mod Pruning
pub mod Having
pub mod Narrowing
pub mod Counting
pub mod Cycles
