pub mod Printed
pub mod PrintedLaws
pub mod Reading
pub mod NumberLaws
pub mod ReadingLaws
pub mod laws
