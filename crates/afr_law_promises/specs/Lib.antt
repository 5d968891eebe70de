pub mod Unlocked
pub mod ByPosition
pub mod Durable
pub mod Missed
pub mod Whole
pub mod Available
