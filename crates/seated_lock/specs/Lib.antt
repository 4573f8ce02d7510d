pub mod Codes
pub mod Stories
pub mod StoryLaws
pub mod Rules
pub mod Steps
pub mod Passes
pub mod Lends
pub mod Ids
