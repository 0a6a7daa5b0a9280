pub mod Load
pub mod Places
pub mod Listed
pub mod Plan
pub mod Answers
pub mod Operator
pub mod Program
pub mod Flat
