pub mod Faults
pub mod FaultLaws
pub mod Openings
pub mod PairLaws
pub mod Saying
