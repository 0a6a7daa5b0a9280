pub mod Free
pub mod Known
pub mod Laws
pub mod Words
