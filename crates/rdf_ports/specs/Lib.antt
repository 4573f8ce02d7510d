pub mod Bytes
pub mod Calls
pub mod Counts
pub mod Memory
pub mod Std
pub mod Saying
