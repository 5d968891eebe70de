pub mod PartLines
pub mod Hearing
pub mod Bringing
