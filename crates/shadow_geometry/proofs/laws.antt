pub mod DirectionMirror
pub mod Errors
pub mod MagnitudeLaws
pub mod MirrorLaws
pub mod Sizes
pub mod StateLaws
pub mod StateMeaning
pub mod States
