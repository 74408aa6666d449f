pub mod PolynomialError
pub mod Triangle
pub mod Cylinder
-- laws of the definitions, for callers
pub mod ExactLaws
pub mod Ranges
pub mod Moments
pub mod DirectionLaws
pub mod Examples
