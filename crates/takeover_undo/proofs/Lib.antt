pub mod Noting
pub mod Listing
pub mod Undoing
pub mod Batching
