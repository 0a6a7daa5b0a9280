pub mod Behind
pub mod Moving
pub mod Limiting
pub mod Exchanging
pub mod Held
pub mod Alike
pub mod Running
mod Tied
mod Passes
mod Meets
mod Again
