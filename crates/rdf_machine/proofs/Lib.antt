pub mod PositionLaws
pub mod PushLaws
pub mod Backups
pub mod MachineLaws
pub mod FollowLaws
pub mod PartLaws
pub mod CutOffLaws
pub mod ReachLaws
