pub mod Removals
pub mod Entry
pub mod Job
pub mod Laws
pub mod Renames
