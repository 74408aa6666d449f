pub mod LineLaws
pub mod Examples
pub mod Reading
pub mod TimeLaws
pub mod Printed
pub mod ClockLaws
pub mod OutwardLaws
pub mod ClockExamples
