pub mod Changes
pub mod Fakes
pub mod Losses
pub mod Refusals
pub mod Rows
pub mod Sweeps
