pub mod NotedLemmas
pub mod RedoLemmas
