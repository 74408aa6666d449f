pub mod Inputs
pub mod Outputs
pub mod Records
pub mod laws
