pub mod CopyLaws
pub mod Listing
