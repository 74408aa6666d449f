pub mod Fields
pub mod HeldLaws
pub mod Examples
