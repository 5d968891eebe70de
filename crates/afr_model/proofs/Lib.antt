pub mod StartedLemmas
pub mod Rises
pub mod Cut
