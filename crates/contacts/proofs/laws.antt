pub mod Alternate
pub mod CalledForLaws
pub mod Changes
pub mod Ends
pub mod Shifted
pub mod WellFormed
