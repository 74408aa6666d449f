pub mod Fields
pub mod Rows
pub mod Layout
pub mod Request
pub mod RoundTrip
pub mod Input
pub mod laws
