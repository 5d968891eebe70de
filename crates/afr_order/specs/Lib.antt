pub mod Ending
pub mod Onward
pub mod Replays
