pub mod Place
pub mod Front
