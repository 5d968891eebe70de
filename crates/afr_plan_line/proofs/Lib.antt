pub mod Front
pub mod DataLemmas
pub mod PathLemmas
pub mod RunLemmas
