pub mod Looks
pub mod LooksLemmas
pub mod Verdict
pub mod VerdictLemmas
pub mod Shown
