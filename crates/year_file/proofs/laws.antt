pub mod StretchLaws
pub mod NoteLaws
pub mod KeptLaws
pub mod WalkLaws
pub mod Mended
pub mod AnswerLaws
