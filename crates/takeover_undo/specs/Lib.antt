pub mod Undo
pub mod Firsts
pub mod Undone
