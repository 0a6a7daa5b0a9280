pub mod Declared
pub mod FewNames
mod Refusing
