pub mod Words
pub mod Table
pub mod Arguments
pub mod Values
pub mod Spelling
pub mod Usage
pub mod View
