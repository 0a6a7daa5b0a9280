pub mod Arcs
pub mod Loads
pub mod Paths
pub mod Timed
pub mod Graph
pub mod Exchanged
pub mod Changes
pub mod Traces
