pub mod Decimals
pub mod Texts
pub mod Patterns
pub mod Rows
pub mod laws
