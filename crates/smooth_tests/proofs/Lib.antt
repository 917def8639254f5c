pub mod Heavy
pub mod InNumbers
pub mod SmoothingTaken
pub mod SmoothingRefused
