pub mod Heals
