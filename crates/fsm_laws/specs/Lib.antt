pub mod FewSignals
pub mod EachText
pub mod Writable
