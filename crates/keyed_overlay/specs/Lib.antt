pub mod Overlays
pub mod OverlayLaws
pub mod Layings
pub mod Merging
