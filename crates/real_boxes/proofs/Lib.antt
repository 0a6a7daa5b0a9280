pub mod Reaches
pub mod Layers
pub mod Firsts
pub mod Closest
pub mod Beside
pub mod Unlike
pub mod Shown
pub mod Stages
