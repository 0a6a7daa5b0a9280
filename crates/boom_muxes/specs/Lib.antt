pub mod Muxes
pub mod Rebuilding
pub mod Planning
pub mod Names
pub mod Building
pub mod Anew
