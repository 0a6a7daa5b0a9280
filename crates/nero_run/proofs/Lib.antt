mod Texts
pub mod Grid
pub mod Refusing
