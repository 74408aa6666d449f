pub mod NearLaws
pub mod RoundsLaws
