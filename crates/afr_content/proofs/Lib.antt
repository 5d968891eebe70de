pub mod Calls
pub mod Numbers
pub mod Places
pub mod Shown
pub mod WholeFile
