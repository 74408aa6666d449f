-- what to believe: a course with its sheet, and demand 3 of it
pub mod Courses
pub mod Demand3
pub mod Directions
-- why a sound course has it
pub mod Sound
-- what to believe: the course of an occultation
pub mod Course
pub mod laws
