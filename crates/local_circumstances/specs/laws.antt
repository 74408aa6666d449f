pub mod CourseLaws
pub mod SheetLaws
-- how long a sheet is, and how it is written piece by piece
pub mod Lengths
pub mod Stores
pub mod DirectionLaws
-- laws
pub mod NamedSecondLaws
pub mod CourseSound
