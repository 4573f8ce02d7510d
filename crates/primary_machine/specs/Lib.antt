pub mod Kept
pub mod Backouts
pub mod Stops
pub mod Lines
