pub mod View
pub mod Condition
pub mod Right
pub mod Laws
pub mod Same
pub mod Writable
