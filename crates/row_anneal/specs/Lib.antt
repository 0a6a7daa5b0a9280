pub mod Amiss
