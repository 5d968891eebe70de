pub mod Inside
pub mod Asks
pub mod There
pub mod Fitting
pub mod Showing
pub mod Heard
pub mod Reading
pub mod Bringing
