-- Laws.
pub mod RunsLaws
