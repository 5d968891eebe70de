pub mod Removals
pub mod Entries
