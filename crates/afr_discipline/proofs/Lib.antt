mod StandsLemmas
pub mod Decides
pub mod Decisions
mod HealDecisions
mod SetsOfFive
mod AllowedLemmas
pub mod FirstLemmas
mod LeftLemmas
mod NotedLaw
mod NotedShape
mod NotedUpto
mod InPlace
mod Alone
mod StepsOutside
mod StepsInside
mod NotedSteps
mod Whole
mod Noted
pub mod FreeLemmas
