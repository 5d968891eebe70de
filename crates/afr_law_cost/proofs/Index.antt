pub mod Numbers
pub mod Known
pub mod Scripts
pub mod Indexes
