pub mod Thirteen
pub mod laws
