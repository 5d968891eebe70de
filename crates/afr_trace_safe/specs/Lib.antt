pub mod Seen
pub mod Same
pub mod Acknowledged
pub mod Attempts
pub mod Covered
pub mod Judged
pub mod Touched
