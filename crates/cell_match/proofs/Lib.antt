pub mod Numbers
pub mod Pigeons
pub mod Reading
pub mod Composing
pub mod Entering
pub mod Filling
pub mod Fusing
pub mod Matching
