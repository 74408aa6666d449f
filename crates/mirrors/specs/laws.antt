-- why it is so
pub mod MirrorLaws
pub mod ChangedLaws
pub mod BytesLaws
