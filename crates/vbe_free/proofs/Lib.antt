mod Operands
pub mod Freed
pub mod Drives
pub mod Walks
pub mod Covered
pub mod Agree
pub mod Ones
pub mod Checks
pub mod Texts
pub mod Tables
pub mod Short
pub mod Placing
pub mod Bits
pub mod Values
pub mod Found
pub mod Ending
pub mod Single
pub mod Choosing
