pub mod Heal
pub mod Queue
pub mod Work
