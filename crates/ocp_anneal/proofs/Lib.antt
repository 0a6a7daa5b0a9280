pub mod Instances
pub mod Nets
pub mod Numbers
pub mod Tops
pub mod Alike
pub mod Placing
pub mod Square
pub mod Fair
