pub mod CoveredLaws
