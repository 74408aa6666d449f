-- definitions, in document 01's order
pub mod Table
pub mod Room
pub mod laws
