pub mod ChoosingLemmas
pub mod WalkLemmas
