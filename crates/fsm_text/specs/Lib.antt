pub mod Written
pub mod Fsm
pub mod FsmReading
pub mod Pieces
pub mod Chains
pub mod Texts
pub mod Short
pub mod Laws
