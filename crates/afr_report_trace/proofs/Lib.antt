mod ActorLemmas
mod FiveLemmas
mod TextLemmas
mod RowLemmas
mod WriteLemmas
mod TraceLemmas
