pub mod Words
pub mod Faults
pub mod Written
pub mod Output
pub mod Joining
pub mod Saying
