pub mod AngleLaws
pub mod Check
pub mod Circle
pub mod Coefficients
pub mod EveryAngle
pub mod Tests
