pub mod BrickLines
pub mod Heals
pub mod Own
pub mod Summary
pub mod Workers
