pub mod Refusals
pub mod Phases
pub mod States
pub mod laws
