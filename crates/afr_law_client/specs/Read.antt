pub mod Lines
pub mod Looks
pub mod WalkTelling
pub mod WalkLaws
pub mod ChangeLaws
pub mod ReadTelling
pub mod ReadLaws
