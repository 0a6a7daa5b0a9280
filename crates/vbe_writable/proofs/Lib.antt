mod Letters
pub mod Cut
pub mod Saying
pub mod Sources
pub mod Declaring
mod Supplied
mod Running
mod Stored
mod Named
