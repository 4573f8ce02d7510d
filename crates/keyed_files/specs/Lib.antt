pub mod Joined
pub mod RowsAbove
pub mod Listed
