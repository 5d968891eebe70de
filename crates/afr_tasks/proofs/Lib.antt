pub mod Balances
pub mod TasksLemmas
