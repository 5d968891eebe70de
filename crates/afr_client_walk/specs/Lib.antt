pub mod Choosing
pub mod Looks
pub mod Stops
pub mod Walk
