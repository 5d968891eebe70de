pub mod Acting
pub mod Keeping
pub mod Laws
