pub mod Unlocked
pub mod Cell
pub mod Law
pub mod Sets
pub mod Model
pub mod Missed
pub mod Whole
pub mod Available
