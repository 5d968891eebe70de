pub mod Works
pub mod Honest
pub mod Grounds
pub mod Blaming
pub mod Right
pub mod Taken
