pub mod EagerLemmas
pub mod EndLemmas
pub mod NotedLemmas
pub mod SettledLemmas
