pub mod DecimalLaws
pub mod TextLaws
pub mod PatternLaws
pub mod Examples
pub mod RowLaws
