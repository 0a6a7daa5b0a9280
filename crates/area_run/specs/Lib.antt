pub mod Words
pub mod Area
