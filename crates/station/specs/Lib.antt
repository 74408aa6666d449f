pub mod Station
pub mod Place
pub mod Sizes
pub mod Mirror
pub mod laws
