pub mod Losing
pub mod Powered
