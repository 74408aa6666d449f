-- How runs of states are stored, and what a reader and a writer of one promise.
pub mod Runs
pub mod laws
