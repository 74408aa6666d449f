-- values at a part of an hour: sizes and errors; at a whole second they are the values of that second
pub mod PartErrors
pub mod WholeSeconds
pub mod SecondStates
pub mod EdgeSigns
-- what the search finds
pub mod BracketLaws
pub mod EndLaws

-- the answer of an occultation
