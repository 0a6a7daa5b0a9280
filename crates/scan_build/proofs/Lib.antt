pub mod Adding
pub mod Built
