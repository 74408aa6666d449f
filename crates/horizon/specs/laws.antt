-- laws, for callers
pub mod AltitudeLaws
pub mod HorizonLaws
pub mod MirrorLaws
