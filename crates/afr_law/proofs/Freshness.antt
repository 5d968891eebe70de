pub mod Fresh
pub mod Misses
