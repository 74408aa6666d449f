-- what to believe: a station's line, a line, a text
pub mod Stations
pub mod Lines
pub mod Typing
pub mod laws
