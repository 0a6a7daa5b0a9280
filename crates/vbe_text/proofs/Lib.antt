pub mod VbeLanguage
pub mod Choices
pub mod Whole
pub mod Laws
pub mod Counted
pub mod Short
