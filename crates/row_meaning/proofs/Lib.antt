pub mod Counting
pub mod Exchanging
pub mod Lengths
pub mod Keeping
pub mod Alike
pub mod Numbering
