-- what to believe: the two series
pub mod Series
-- what to believe: the two series at any angle, and how far a number is from a fraction
pub mod TrueSine
pub mod Angles
pub mod laws
