pub mod Levels
pub mod Spectrum
pub mod Distance
pub mod Limits
