pub mod Counting
pub mod Beginning
pub mod Spending
pub mod Lines
pub mod Indexes
