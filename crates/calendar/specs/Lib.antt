pub mod Calendar
pub mod Numbers
pub mod laws
