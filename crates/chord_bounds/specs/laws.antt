-- a whole turn more, and the true sine: its first and second differences
pub mod Turns
pub mod SeriesBend
pub mod TrueBend
-- from second differences to a tangent
pub mod Tangent
pub mod SineSlope
-- how far a value leaves a chord
pub mod Deviation
pub mod SineChord
pub mod Values
-- the shadow
pub mod Shadows

-- the margins at two ends, and the seconds between
