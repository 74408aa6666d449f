pub mod StepLaws
-- Laws, each in a file with its statement first.
pub mod Ordered
pub mod ExactLaws
pub mod Shifted
-- What the laws are proved by.
pub mod AllLaws
pub mod BetweenLaws
pub mod Induction
