pub mod Causes
pub mod Kept
pub mod Meters
pub mod Names
pub mod Tracked
pub mod SteadyLaws
pub mod TornLaws
pub mod Saying
