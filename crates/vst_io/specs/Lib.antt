pub mod Nets
pub mod Faults
pub mod Text
pub mod Known
pub mod Checked
pub mod Drafts
pub mod Laws
