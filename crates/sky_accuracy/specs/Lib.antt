-- what to believe: the place on the true spheroid, and how far the rule's may be from it
pub mod TruePlace
-- what to believe: the true shadow at a part of an hour
pub mod TrueShadow
-- what is claimed of the distance
pub mod Nineteen
-- what to believe: the true answers at each second, of which demand 3 is claimed
pub mod Truth
-- what to believe: what is claimed of the contacts of a sheet, and of an answer
pub mod TrueContacts
pub mod laws
