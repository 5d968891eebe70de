mod Gathered
pub mod Duties
mod AsksAbout
mod AsksGiven
pub mod BeforeAsks
mod BeforeNext
mod AsksSource
mod AsksLine
mod AsksHeal
mod AsksIndex
mod AsksKeep
mod Others
mod Begins
mod WritesOn
mod Writes
mod WritesEnd
mod WritesLine
mod EveryLine
pub mod Fed
mod StepLemmas
