pub mod Shadow
pub mod Second
pub mod laws
