pub mod MirrorLaws
pub mod PlaceLaws
