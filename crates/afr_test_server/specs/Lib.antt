pub mod Server
pub mod Servers
