pub mod ChoiceLemmas
pub mod FoundLemmas
mod HearLemmas
mod NotedLemmas
mod Sound
pub mod Fed
