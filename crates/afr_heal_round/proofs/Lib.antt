pub mod List
pub mod Fed
mod Indexed
pub mod Shapes
