pub mod Entries
pub mod ImageLaws
pub mod Boards
pub mod NoteLaws
