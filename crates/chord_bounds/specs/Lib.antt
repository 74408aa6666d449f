-- the margins at two ends
pub mod Margins
pub mod laws
