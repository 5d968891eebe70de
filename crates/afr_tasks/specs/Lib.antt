pub mod Balance
pub mod Exchange
pub mod Parts
