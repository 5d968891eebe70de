pub mod UnderLemmas
pub mod RenameLemmas
pub mod HeardLemmas
pub mod PathLemmas
