pub mod Picked
pub mod Places
pub mod Gaps
pub mod Excused
pub mod Standard
pub mod Drawn
pub mod Holding
