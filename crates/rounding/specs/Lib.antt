pub mod Units
pub mod Near
pub mod Root
pub mod Rounds
pub mod Parts
pub mod Value
pub mod Limits
pub mod laws
