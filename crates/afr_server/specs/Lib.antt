pub mod Serving
pub mod Carried
pub mod Outcome
pub mod Covered
pub mod Happening
pub mod Log
pub mod NextLine
