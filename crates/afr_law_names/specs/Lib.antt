pub mod Named
pub mod Apart
pub mod Numbered
pub mod Links
pub mod Descent
