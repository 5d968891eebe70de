pub mod Removals
pub mod AskedLemmas
pub mod EntryLemmas
pub mod HeardLemmas
pub mod NextLemmas
pub mod Renames
