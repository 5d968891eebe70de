pub mod BareLaws
pub mod PlainLaws
