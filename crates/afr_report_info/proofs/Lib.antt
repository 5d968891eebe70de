mod EachLemmas
mod ShownLemmas
mod VerdictLemmas
pub mod VolumeLemmas
