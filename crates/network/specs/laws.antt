pub mod PrintedLaws
pub mod StationLines
