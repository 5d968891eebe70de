pub mod Begins
pub mod Goes
pub mod Ends
