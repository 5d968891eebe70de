pub mod Left
pub mod Laws
pub mod Round
pub mod Index
pub mod Healer
