pub mod Copying
pub mod CopyingLaws
pub mod Saying
