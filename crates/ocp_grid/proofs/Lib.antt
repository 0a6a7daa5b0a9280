pub mod PinPlaces
pub mod Apart
pub mod InRows
pub mod Sited
pub mod Spots
pub mod Nets
pub mod Sites
