pub mod Makes
pub mod Paths
pub mod Entries
pub mod Steps
