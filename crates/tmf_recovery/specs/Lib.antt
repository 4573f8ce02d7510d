pub mod Noted
pub mod Redone
