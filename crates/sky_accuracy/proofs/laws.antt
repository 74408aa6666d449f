-- the theorems: what is said at a part of an hour is true, how finely the hour is cut does not matter; a sheet with a
-- guard of 32 or more is true of the sky; its contacts lie between two hundredths of a second; whatever is answered of
-- a contact is true
pub mod AnswerLaws
pub mod Moved
pub mod PlaceErrors
pub mod SaidTruly
pub mod SkyLaws
pub mod TrueBrackets
pub mod TrueContactLaws
pub mod TrueSeconds
pub mod TrueStates
pub mod TrulySaid
pub mod TruthLaws
