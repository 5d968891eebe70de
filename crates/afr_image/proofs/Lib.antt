pub mod StepLemmas
pub mod FrameLemmas
pub mod ReadLemmas
pub mod LogLemmas
