pub mod AnswerLaws
pub mod SkyLaws
pub mod ListingLaws
pub mod ExtentLaws
