pub mod Copies
pub mod Units
pub mod Since
pub mod Tallies
pub mod Raises
pub mod Traces
pub mod Divergence
