pub mod Left
pub mod Laws
pub mod Walks
pub mod Writes
pub mod Lookups
pub mod Entry
pub mod Rename
pub mod Work
