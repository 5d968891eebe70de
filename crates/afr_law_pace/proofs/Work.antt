pub mod Asking
pub mod Works
