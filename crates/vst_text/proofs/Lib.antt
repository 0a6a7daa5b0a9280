pub mod VstLanguage
pub mod Whole
pub mod Laws
pub mod Mapped
