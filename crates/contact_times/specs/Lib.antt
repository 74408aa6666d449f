-- what to believe: the shadow at a part of an hour
pub mod Parts
-- the two hundredths of a second between which a contact lies
pub mod Brackets
-- and what is answered of an occultation
pub mod Contacts
-- sizes
pub mod Sizes
pub mod laws
