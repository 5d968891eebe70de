pub mod Queue
pub mod Above
pub mod Logs
