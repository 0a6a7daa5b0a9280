pub mod Grid
pub mod Numbers
pub mod Owners
pub mod Routes
pub mod Trees
pub mod Shown
