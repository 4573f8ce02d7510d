pub mod Locks
pub mod Faults
pub mod Saying
