pub mod Heal
pub mod Rows
pub mod Asking
pub mod Work
