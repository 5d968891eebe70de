pub mod OrderLemmas
pub mod PassLemmas
pub mod EndLemmas
pub mod OnwardLemmas
pub mod ClientLemmas
pub mod Replays
