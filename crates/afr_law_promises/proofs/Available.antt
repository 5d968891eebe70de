pub mod Same
pub mod Works
pub mod Parts
pub mod Renames
pub mod Logs
pub mod Unfailed
