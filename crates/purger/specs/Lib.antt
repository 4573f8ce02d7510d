pub mod Purging
pub mod PurgingLaws
