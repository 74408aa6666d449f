-- laws: closeness to a value with a root, a row that is accepted
pub mod CloseMeaning
pub mod CloseLaws
pub mod ErrorSteps
pub mod AxisSizes
pub mod Sizes
-- the theorem
pub mod Errors
pub mod WideLaws
pub mod DistanceLaws
pub mod ReadLaws
