pub mod Finds
pub mod Hears
pub mod Entry
pub mod Rename
pub mod Works
