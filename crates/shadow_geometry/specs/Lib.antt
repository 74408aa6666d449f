-- what to believe: document 01's rules as definitions
pub mod Shadow
pub mod Exact
pub mod Direction
pub mod Magnitude
-- the theorems on how far the shadow is from the exact one
pub mod laws
