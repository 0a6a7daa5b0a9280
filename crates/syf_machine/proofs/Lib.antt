pub mod Lists
pub mod Naming
pub mod Numbers
pub mod Encoded
pub mod Made
pub mod Whole
pub mod Targeted
