pub mod Meaning
pub mod SightLaws
-- how it is found
pub mod EnterLaws
