-- the theorems: `exists`, `place-close`
pub mod Exists
-- why they hold: sizes, the circle, the rule's C, what is known of a latitude, C times a sine or a cosine
pub mod Sizes
pub mod Circle
pub mod Curvature
pub mod Latitude
pub mod Meridian
pub mod Signs
-- why they hold: how far a point moves, what is known of a time, from 13 to 32 units
pub mod Displacement
pub mod ShadowErrors
pub mod Scaled
