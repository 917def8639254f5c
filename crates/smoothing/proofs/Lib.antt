pub mod Dividing
pub mod Products
pub mod Combining
pub mod Restoring
pub mod Weights
pub mod BySpectra
pub mod Smoothed
