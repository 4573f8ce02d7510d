pub mod CutLaws
pub mod RestLaws
pub mod RestartLaws
pub mod NodeLaws
pub mod CauseLaws
pub mod OffLaws
pub mod FuseLaws
pub mod KindLaws
pub mod MovedLaws
mod CallLaws
