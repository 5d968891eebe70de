pub mod Heal
pub mod Attr
pub mod Reads
pub mod Next
