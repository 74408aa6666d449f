-- What a step promises, and its laws.
pub mod Step
-- The rules: the entries of a phase; in document 01's own words; and exact answers.
pub mod Entries
pub mod CalledFor
pub mod Exact
pub mod laws
