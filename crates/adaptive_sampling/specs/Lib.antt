-- a distance that some second reaches, the seconds that are computed first
pub mod Reach
pub mod Spread
-- the closest second, what is known of the seconds so far
pub mod Nearest
pub mod Kept
-- what is known of all seconds
pub mod Found
pub mod laws
