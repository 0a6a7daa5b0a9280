pub mod Among
pub mod Drivers
pub mod Numbered
pub mod Free
pub mod Marked
pub mod Routed
pub mod InUse
