pub mod StoreLaws
pub mod ChangeLaws
pub mod Backs
pub mod TmfLaws
pub mod EndLaws
pub mod JoinLaws
pub mod VolumeLaws
