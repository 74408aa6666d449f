pub mod SheetLaws
-- laws, for callers
pub mod SecondLaws
pub mod ShareLaws
pub mod HorizonLaws
pub mod ContactLaws
