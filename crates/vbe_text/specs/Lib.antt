pub mod Source
pub mod Vbe
pub mod VbeReading
pub mod Laws
