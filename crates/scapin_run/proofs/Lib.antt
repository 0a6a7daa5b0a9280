pub mod Naming
pub mod Rooms
pub mod Placing
pub mod Refusing
