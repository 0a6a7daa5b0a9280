mod Stringing
mod Naming
pub mod Pigeons
pub mod Members
pub mod Kept
pub mod Walking
mod Sound
mod Checked
pub mod Running
pub mod Fewest
