pub mod Sheet
-- what to believe: what a caller gets of one second, and of the share at it
pub mod Second
pub mod Shares
-- the horizon at one second
pub mod Horizons
-- the contact between two seconds
pub mod Contacts
pub mod laws
