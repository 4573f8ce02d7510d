pub mod Quiet
pub mod Answers
pub mod Told
