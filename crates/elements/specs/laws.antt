pub mod PartSizes
pub mod PolynomialLaws
pub mod ElementsLaws
pub mod MirrorLaws
