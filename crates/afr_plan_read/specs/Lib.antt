pub mod Counts
pub mod FaultPlaces
pub mod Broken
pub mod Numbered
