-- what to believe: document 02's wish 4 as definitions, and what is proved of them
pub mod Share
pub mod Holds
-- what to believe
pub mod Covered
pub mod Answer
-- laws
pub mod AnswerLaws
pub mod laws
