pub mod Converged
pub mod Reached
pub mod Rolling
