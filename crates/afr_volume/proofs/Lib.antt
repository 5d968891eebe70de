mod AskKeeps
mod Before
mod EventKeeps
mod FreshReads
mod LineKeeps
mod LogLemmas
mod TaskLemmas
mod TaskSteps
mod TaskTurn
pub mod TaskDone
mod TaskBegins
pub mod ListLemmas
mod Opening
mod ReadyLemmas
mod Runs
mod TurnKeeps
mod WholeTurn
mod WriteKeeps
mod Written
mod HealersKeep
mod HealerTurn
mod HealerLemmas
mod PickedLemmas
mod ReadingLemmas
mod ReadsKeep
pub mod ChosenLemmas
mod SourceLemmas
mod PaceAll
mod PaceLines
mod PaceWorks
mod PaceTurns
mod PaceHeals
mod PaceRounds
mod PaceEvents
pub mod GoingLemmas
pub mod DoneLemmas
pub mod PlainLemmas
pub mod PresumedLemmas
