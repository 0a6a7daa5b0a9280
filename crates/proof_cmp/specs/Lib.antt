pub mod Verdict
pub mod Comparing
