pub mod Images
pub mod Index
pub mod Machines
pub mod OfNodes
