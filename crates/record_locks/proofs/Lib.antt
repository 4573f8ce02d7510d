pub mod AgreeLemmas
pub mod ListLemmas
