pub mod Points
pub mod Sites
pub mod Law
