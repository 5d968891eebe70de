pub mod Paths
pub mod Against
pub mod Under
pub mod Rename
pub mod Laws
