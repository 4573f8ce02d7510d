pub mod Founds
pub mod Tells
pub mod Steps
pub mod FoundLaws
pub mod KeyLaws
