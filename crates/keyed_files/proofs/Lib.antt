pub mod JoinedLemmas
pub mod OrderLemmas
pub mod StepLemmas
pub mod ListedLemmas
