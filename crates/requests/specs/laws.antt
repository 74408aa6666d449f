pub mod MirrorLaws
