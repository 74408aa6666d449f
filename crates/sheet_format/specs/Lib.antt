pub mod Entries
pub mod FieldRules
pub mod Kinds
pub mod StoredSeconds
pub mod RecordEntries
pub mod Numbers
pub mod Records
pub mod laws
