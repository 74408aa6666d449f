pub mod Exact
pub mod Rounded
pub mod Wide
pub mod Tables
pub mod AcceptedLaws
pub mod Parts
pub mod laws
