pub mod Answers
pub mod Sky
pub mod Listings
pub mod Extents
pub mod laws
