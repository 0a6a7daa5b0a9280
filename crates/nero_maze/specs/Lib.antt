pub mod Ways
pub mod Search
pub mod Hulls
pub mod Levels
pub mod Claims
pub mod Routing
pub mod Board
pub mod Ripping
