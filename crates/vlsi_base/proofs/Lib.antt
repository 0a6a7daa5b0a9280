pub mod NumberLemmas
pub mod Decimal
pub mod Groups
pub mod Ranges
pub mod NameOrder
pub mod IndexLemmas
pub mod Cutting
