pub mod Undisturbed
pub mod Lists
pub mod Moves
pub mod Copies
pub mod Rounds
