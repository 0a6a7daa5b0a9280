pub mod Stages
pub mod Numbered
pub mod Nodes
pub mod PortNames
pub mod Sources
pub mod Laid
pub mod Ordered
