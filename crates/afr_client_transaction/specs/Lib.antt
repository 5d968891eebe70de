pub mod Between
pub mod Laws
pub mod Made
pub mod Outcome
pub mod Progress
pub mod Sound
pub mod Again
