pub mod Compared
pub mod Stages
pub mod Laws
