pub mod Sets
pub mod Stages
pub mod Removals
pub mod Entries
