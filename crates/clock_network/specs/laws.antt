pub mod First
-- that they are the same, and what they say of an accepted list
pub mod Meaning
pub mod DefinedLaws
pub mod Examples
-- how they are found
pub mod Search
pub mod Earliest
pub mod Laws
pub mod Bits
-- what holds of them
pub mod HeldLaws
pub mod Copy
pub mod Walks
