pub mod RowLemmas
pub mod SpotLemmas
