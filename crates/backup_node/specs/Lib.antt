pub mod Nodes
pub mod Kinds
pub mod Moves
pub mod MoveLaws
pub mod Lines
pub mod Rising
pub mod Open
pub mod Closing
