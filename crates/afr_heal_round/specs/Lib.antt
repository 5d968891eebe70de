pub mod List
pub mod Rounding
