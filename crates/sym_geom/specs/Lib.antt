pub mod Rect
pub mod Metal
pub mod Items
