-- Lemmas of this crate.
pub mod FormLemmas
pub mod NumberLemmas
pub mod OneWordLemmas
pub mod ReadingLemmas
pub mod RefusedLemmas
