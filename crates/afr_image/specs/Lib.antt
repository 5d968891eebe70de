pub mod Steps
pub mod Frame
pub mod Frames
pub mod Images
pub mod Refusals
pub mod Answers
pub mod Logs
