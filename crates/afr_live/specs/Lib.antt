-- The definitions that the contracts of this crate cite.
pub mod Ending
pub mod Ends
pub mod Handed
pub mod Noted
pub mod Turns
