pub mod Tokens
pub mod Filled
pub mod Second
pub mod Text
pub mod Checked
pub mod Either
pub mod Laws
