-- Lemmas of this crate.
pub mod ActorLemmas
pub mod CheckLemmas
pub mod CrawlLemmas
pub mod EndLemmas
pub mod FormLemmas
pub mod LiveLemmas
pub mod LoadLemmas
pub mod PartLemmas
pub mod RecordLemmas
pub mod ReplayLemmas
pub mod RunLemmas
pub mod StatusLemmas
pub mod ToldLemmas
