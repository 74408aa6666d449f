pub mod Answers
pub mod Timed
pub mod laws
