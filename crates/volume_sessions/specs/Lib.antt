pub mod Shown
pub mod Rising
pub mod Watching
pub mod Leaving
pub mod Workers
pub mod Opening
