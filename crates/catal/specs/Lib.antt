pub mod Line
pub mod Used
pub mod Read
pub mod Catal
pub mod Lines
pub mod Cells
pub mod Laws
