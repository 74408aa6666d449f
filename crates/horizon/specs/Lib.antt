-- what to believe: the altitude from its sine, the three numbers of a second
pub mod Altitude
pub mod Horizon
pub mod laws
