pub mod FileContent
pub mod Kept
