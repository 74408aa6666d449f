pub mod LineLaws
pub mod StreamLaws
