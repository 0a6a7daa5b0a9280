pub mod Ordered
mod Readings
mod Parts
mod Weights
mod Cells
pub mod Values
mod Meaning
mod Same
pub mod Counting
pub mod Arranging
pub mod Loops
pub mod Orders
mod Drivers
mod Designs
mod Trees
mod Texts
mod CellTexts
mod Few
pub mod RenamedTrees
pub mod Plain
pub mod Formulas
pub mod Guards
pub mod Stated
pub mod Rings
pub mod Alike
pub mod Copies
pub mod Itself
pub mod Renamed
pub mod Declared
pub mod Named
pub mod Passing
pub mod Reading
