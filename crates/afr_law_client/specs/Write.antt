pub mod WriteTelling
pub mod WriteLaws
