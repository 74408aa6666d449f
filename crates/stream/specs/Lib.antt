pub mod Unwritten
pub mod laws
