pub mod Scales
pub mod Lines
pub mod Meets
pub mod Firsts
pub mod Reached
pub mod Mapped
pub mod Cutting
pub mod Wholes
