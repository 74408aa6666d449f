pub mod SecondLaws
pub mod Examples
pub mod MirrorLaws
