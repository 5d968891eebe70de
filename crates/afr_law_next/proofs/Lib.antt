pub mod Turned
pub mod Answered
pub mod Turns
