pub mod Words
pub mod TableText
pub mod RectText
pub mod Process
pub mod S2r
