pub mod Passes
pub mod Visits
