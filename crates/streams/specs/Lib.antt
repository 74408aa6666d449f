pub mod Streams
pub mod Stops
pub mod laws
