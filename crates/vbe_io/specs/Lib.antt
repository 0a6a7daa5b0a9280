pub mod Text
pub mod Cell
pub mod Laws
