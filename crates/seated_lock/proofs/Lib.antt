pub mod Tallies
pub mod Keeps
pub mod Turns
pub mod Sharing
pub mod Ready
