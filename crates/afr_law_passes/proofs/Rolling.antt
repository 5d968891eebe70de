pub mod Epoch
pub mod Idle
pub mod Named
pub mod Rolled
