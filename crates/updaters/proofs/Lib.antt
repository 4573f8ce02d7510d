pub mod Holding
pub mod Between
pub mod Redoing
pub mod Batching
pub mod Turning
pub mod Looking
