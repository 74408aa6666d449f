pub mod Clear
pub mod MarginLaws
pub mod Path
pub mod Skip
