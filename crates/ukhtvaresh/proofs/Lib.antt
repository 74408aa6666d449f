-- what several proofs use
pub mod Contacts
pub mod Horizons
pub mod Seconds
