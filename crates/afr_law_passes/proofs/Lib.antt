pub mod Parts
pub mod Spared
pub mod Splits
mod Leaving
mod Standing
mod Lines
mod Rounds
mod Heals
mod Passes
mod Reached
mod Rolling
