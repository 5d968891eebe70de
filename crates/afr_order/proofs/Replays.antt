pub mod MadeLemmas
pub mod LineLemmas
pub mod TurnsLemmas
