pub mod Seconds
pub mod laws
