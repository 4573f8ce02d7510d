pub mod Counts
pub mod Runs
pub mod Answering
pub mod Stops
pub mod Nodes
pub mod Telling
pub mod Samples
