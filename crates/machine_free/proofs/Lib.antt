pub mod Greater
mod Same
mod Choosing
