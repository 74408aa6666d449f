pub mod ScaleLaws
pub mod SearchLaws
pub mod ReadBackLaws
pub mod WritingLaws
pub mod HeldRequest
