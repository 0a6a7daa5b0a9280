pub mod Refusing
pub mod Contents
pub mod Netlists
