pub mod Sheets
pub mod Handed
pub mod RoundTrip
pub mod HandWorked
pub mod OldSheets
pub mod laws
