mod Merges
mod OneList
mod Order
pub mod SameLists
mod Stands
