pub mod Instrument
pub mod Writing
pub mod HeldElements
pub mod Survey
pub mod Handed
pub mod laws
