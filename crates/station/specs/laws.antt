pub mod StationLaws
pub mod Examples
