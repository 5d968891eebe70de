pub mod Shown
pub mod Requests
pub mod Given
pub mod Filling
pub mod Built
