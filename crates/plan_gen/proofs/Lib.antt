pub mod Texts
pub mod Turns
pub mod Spelled
pub mod Making
