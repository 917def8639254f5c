pub mod Parts
pub mod Scaled
pub mod Inner
