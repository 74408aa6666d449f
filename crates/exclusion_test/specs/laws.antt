-- what it shows of the seconds between
pub mod PassedLaws
pub mod Gaps
