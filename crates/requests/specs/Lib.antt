pub mod Requests
pub mod Admission
pub mod RequestLaws
pub mod Shares
pub mod Mirror
pub mod Windows
pub mod WindowLaws
pub mod laws
