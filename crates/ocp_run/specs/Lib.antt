pub mod Asked
pub mod Words
pub mod Source
pub mod Ocp
pub mod Laws
