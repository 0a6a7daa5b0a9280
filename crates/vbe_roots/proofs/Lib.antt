pub mod Readings
mod Numbers
mod Meanings
mod Rooting
mod Weighing
mod Same
