-- what to believe: the steps of a list, and the same as functions
pub mod Steps
pub mod Defined
-- what to believe: a list's numbers and clocks, and the list as a value
pub mod Nodes
pub mod Held
-- what to believe: a list's refusals
pub mod Checks
-- what holds of them
pub mod CheckLaws
pub mod laws
