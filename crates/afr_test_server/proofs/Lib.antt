-- Lemmas of this crate.
pub mod Zeros
