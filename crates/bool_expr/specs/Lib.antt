pub mod Expression
pub mod View
pub mod Steps
pub mod Support
pub mod Renumbering
