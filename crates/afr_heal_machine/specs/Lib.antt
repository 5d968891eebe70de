pub mod Contents
pub mod Healing
pub mod Outcome
pub mod Source
pub mod Laws
