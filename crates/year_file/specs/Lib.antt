pub mod Leading
pub mod Walk
pub mod Claims
pub mod Mending
pub mod laws
