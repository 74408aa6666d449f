-- definitions, in document 01's order, and document 02's page
pub mod FirstQuadrant
pub mod Sine
pub mod Quadrants
pub mod laws
