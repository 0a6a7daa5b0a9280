mod Forming
mod Arcs
mod Judging
mod Loading
mod Making
mod Telling
pub mod Plain
pub mod Lawful
pub mod Answering
mod Tools
