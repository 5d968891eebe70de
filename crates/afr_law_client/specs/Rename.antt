pub mod RenameTelling
pub mod RenameLaws
