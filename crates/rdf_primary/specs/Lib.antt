pub mod Standing
pub mod StandingLaws
pub mod States
pub mod Replies
pub mod Kinds
pub mod Lines
pub mod Opening
pub mod Restarting
