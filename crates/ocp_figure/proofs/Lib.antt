pub mod Filled
pub mod Again
pub mod Placed
pub mod Few
