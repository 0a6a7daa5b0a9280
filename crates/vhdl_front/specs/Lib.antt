pub mod Cursor
pub mod Expression
pub mod Reading
pub mod Entity
pub mod EntityReading
pub mod Front
