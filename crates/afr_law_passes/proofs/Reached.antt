pub mod Passes
pub mod Names
pub mod Reached
