pub mod Judging
pub mod NeverRefused
pub mod Netlists
pub mod Refusing
pub mod Alike
pub mod Outputs
pub mod Fewer
pub mod States
pub mod Drawing
pub mod RowDrawing
pub mod SameText
pub mod Lines
pub mod Standing
pub mod Rows
pub mod Circuits
pub mod Spared
pub mod Words
mod Steps
mod Texts
mod Functions
mod Checks
mod Cells
mod Refusals
pub mod Libraries
mod OneRefusal
pub mod Runs
pub mod OneStatus
