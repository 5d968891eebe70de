pub mod Tests
pub mod Changes
pub mod AreaLemmas
pub mod ByPosition
pub mod Places
pub mod Followed
