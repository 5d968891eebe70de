pub mod Cut
pub mod Anew
