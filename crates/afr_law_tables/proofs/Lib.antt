pub mod Entries
pub mod Names
pub mod Copies
pub mod Values
pub mod Merged
pub mod Sound
pub mod Opening
