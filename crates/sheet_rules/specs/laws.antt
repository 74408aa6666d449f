pub mod OrderLaws
pub mod Fields
pub mod Stages
pub mod RuleLaws
pub mod FieldFits
