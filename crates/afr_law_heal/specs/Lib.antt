pub mod HealLaws
pub mod HealTelling
pub mod Stages
pub mod Heard
