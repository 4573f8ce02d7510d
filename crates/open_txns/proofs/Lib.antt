pub mod Marked
pub mod Kept
pub mod Firsts
pub mod Lows
pub mod Counts
pub mod Proper
