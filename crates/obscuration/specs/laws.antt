-- laws: of strips and half-chords, of two discs, of the share
pub mod StripLaws
pub mod DiscLaws
pub mod ShareLaws
pub mod MirrorLaws
