-- what holds of them
pub mod StationLaws
pub mod LineLaws
pub mod EclipseLaws
pub mod TypingLaws
pub mod TypingPlaces
pub mod Examples
