pub mod SameRefusals
pub mod Trails
pub mod Breaking
pub mod Answering
mod KindLaws
mod MeetsLaws
pub mod OpeningLaws
pub mod FormatLaws
mod RestartLaws
mod BackoutLaws
