pub mod AnswerLaws
pub mod laws
