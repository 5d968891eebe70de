pub mod Granted
pub mod Locks
pub mod Reached
pub mod ReachedLemmas
