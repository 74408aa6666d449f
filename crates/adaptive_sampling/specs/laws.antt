-- what follows
pub mod ReachLaws
pub mod SpreadLaws
-- what follows
pub mod KeptLaws
-- what follows
pub mod FoundLaws
