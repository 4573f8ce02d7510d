pub mod Posted
pub mod Shipping
