pub mod Under
pub mod Elsewhere
pub mod Hearing
pub mod Bringing
