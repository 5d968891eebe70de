pub mod Discipline
pub mod Heals
pub mod Safety
pub mod Alike
pub mod Freshness
pub mod Causes
pub mod Model
pub mod Samples
