pub mod AnswerLaws
pub mod TimedLaws
pub mod OneShape
pub mod Reads
