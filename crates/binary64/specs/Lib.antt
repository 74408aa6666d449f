pub mod Doubles
pub mod laws
