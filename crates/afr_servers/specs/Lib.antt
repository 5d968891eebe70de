pub mod Found
pub mod Opening
pub mod Calls
pub mod Started
pub mod Log
pub mod Visiting
pub mod NextLine
pub mod Needs
