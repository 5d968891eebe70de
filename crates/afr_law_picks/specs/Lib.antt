pub mod Sources
pub mod Laws
pub mod Picked
pub mod Readings
