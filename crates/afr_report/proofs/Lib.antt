pub mod BrickLinesLemmas
pub mod CommandLemmas
pub mod ItemLemmas
mod OwnLemmas
mod PlacesLemmas
pub mod SortLemmas
mod ToldLemmas
pub mod WorkerLemmas
mod Summary
