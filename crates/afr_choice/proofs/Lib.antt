pub mod Agreement
pub mod Unaccused
