pub mod ActorLemmas
pub mod ContentLemmas
pub mod CountLemmas
pub mod EntryLemmas
pub mod FlagLemmas
pub mod PlaceLemmas
pub mod TableLemmas
pub mod LogLemmas
