pub mod Lists
pub mod Sums
pub mod Behind
pub mod Together
mod ReadsMore
mod InnerSizes
mod Comparing
mod Accepting
