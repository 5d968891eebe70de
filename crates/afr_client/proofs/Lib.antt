pub mod FiveLemmas
pub mod PathLemmas
pub mod WorkLemmas
