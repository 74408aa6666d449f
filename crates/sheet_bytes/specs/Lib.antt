pub mod Streams
pub mod laws
