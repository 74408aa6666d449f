pub mod HandedLaws
pub mod SurveyLaws
