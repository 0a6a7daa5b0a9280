pub mod Asked
pub mod Words
pub mod RowText
pub mod Nero
pub mod Laws
