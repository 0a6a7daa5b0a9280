pub mod Fitting
pub mod PatLanguage
pub mod Loops
pub mod Right
pub mod Laws
