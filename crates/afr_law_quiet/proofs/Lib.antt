pub mod Lists
pub mod Moves
pub mod Copies
mod Rounds
