pub mod Checks
pub mod Shapes
pub mod Verdict
pub mod Arcs
pub mod Checked
pub mod Nodes
pub mod Points
pub mod Columns
