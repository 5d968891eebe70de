-- The definitions that the contracts of this crate cite.
pub mod Checking
pub mod Crawl
pub mod Forms
pub mod Live
pub mod Parts
pub mod Reading
pub mod Replay
pub mod Statuses
