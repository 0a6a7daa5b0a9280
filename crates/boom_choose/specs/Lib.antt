pub mod Dag
pub mod Pick
pub mod Choice
pub mod Refused
