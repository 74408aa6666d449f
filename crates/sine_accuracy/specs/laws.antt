-- polynomials as lists, the series as polynomials, one cell, the first quadrant, the computed tests
pub mod Lists
pub mod Coefficients
pub mod Cell
pub mod First

-- the theorems: two_units; of any angle; on the circle
-- that the series is the table's, how little is cut off it, and that the bound is nearly reached
