pub mod Lists
pub mod Numbers
pub mod Owners
pub mod Growing
