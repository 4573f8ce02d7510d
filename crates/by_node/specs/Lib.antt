pub mod Each
pub mod Lending
