pub mod Queue
pub mod Rising
pub mod Logs
