pub mod Lines
pub mod Times
pub mod Clock
pub mod Outward
pub mod laws
