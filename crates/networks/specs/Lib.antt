-- what to believe: refusals, answer, steps
pub mod Network
-- what holds of them
pub mod AnswerLaws
-- what to believe: the first enter of a sheet
pub mod Enters
pub mod laws
