pub mod Looks
pub mod Along
pub mod Chosen
pub mod Model
