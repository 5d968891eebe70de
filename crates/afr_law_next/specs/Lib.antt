pub mod Turn
pub mod Asked
pub mod Begun
pub mod Ended
pub mod Happened
pub mod Healed
pub mod Ready
pub mod Standing
