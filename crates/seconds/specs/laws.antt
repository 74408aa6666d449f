pub mod ClosestLaws
pub mod MirrorLaws
