pub mod Parts
pub mod Renames
