-- what to believe: what is said of a second of a request, the closest second, all that is answered of one second, what
-- a smaller guard keeps
pub mod Seconds
pub mod Closest
pub mod OneSecond
pub mod Exact
-- laws, for callers
pub mod AllStates
pub mod laws
