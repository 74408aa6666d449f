pub mod BoundLaws
pub mod Repeats
pub mod StepLaws
