pub mod Spelled
pub mod Flaws
pub mod InUse
pub mod SpelledLaws
