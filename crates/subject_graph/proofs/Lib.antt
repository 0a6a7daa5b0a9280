pub mod Drawing
pub mod Apart
pub mod Finished
pub mod Rooted
pub mod Looking
pub mod Loading
pub mod Showing
pub mod Solving
