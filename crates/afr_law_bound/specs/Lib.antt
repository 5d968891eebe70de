pub mod Waiting
pub mod Law
pub mod Standstill
pub mod Ends
