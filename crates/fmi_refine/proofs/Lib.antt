pub mod Places
pub mod Rounds
pub mod Growing
pub mod Stacked
pub mod Leading
