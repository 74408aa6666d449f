pub mod Errors
pub mod Guards
pub mod laws
