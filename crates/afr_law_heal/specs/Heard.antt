pub mod Hears
pub mod Holds
