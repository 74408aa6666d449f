pub mod QuotientLaws
pub mod ReadBack
pub mod ReadingLaws
