pub mod Texts
pub mod Members
pub mod Low
pub mod Mapped
pub mod KindLemmas
