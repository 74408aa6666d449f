pub mod KindLaws
pub mod StoredSecondLaws
pub mod EntryLaws
pub mod NumberLaws
pub mod Bodies
pub mod RecordLaws
pub mod RecordTrip
