pub mod Tokens
pub mod Filled
