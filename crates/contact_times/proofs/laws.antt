pub mod ContactLaws
