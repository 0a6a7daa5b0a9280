pub mod Meaning
pub mod MeaningLaws
pub mod Meets
pub mod Again
