pub mod Polynomial
pub mod Elements
pub mod Stars
pub mod Sizes
pub mod StarLaws
pub mod Mirror
pub mod laws
