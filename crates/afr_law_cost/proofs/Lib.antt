pub mod Counting
pub mod Bounds
pub mod Looked
pub mod Early
pub mod Middle
pub mod Later
pub mod Giving
pub mod Ending
pub mod Nearer
pub mod Roots
pub mod Round
pub mod Index
mod Healer
