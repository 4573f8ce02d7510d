pub mod Cuts
pub mod Nodes
pub mod Lines
pub mod Kinds
pub mod Moves
pub mod Calls
