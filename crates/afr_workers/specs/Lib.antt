pub mod Cursor
pub mod Crew
pub mod Workshop
pub mod Handed
