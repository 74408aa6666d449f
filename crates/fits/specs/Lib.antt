pub mod Fits
pub mod Conditions
pub mod laws
