pub mod AfterLemmas
pub mod AllowedLemmas
pub mod Facts
pub mod FirstLemmas
pub mod KeptLemmas
pub mod NoteLemmas
