pub mod Taken
pub mod Firsts
pub mod Found
pub mod Ordered
pub mod Planning
