-- what to believe: the sheet of an occultation, the answer and the buffer, demand 3 of them, document 01's marked rows
pub mod Sheet
pub mod Demand3
pub mod Marked
-- what to believe: the sheet of an occultation
pub mod WrittenSheet
pub mod laws
