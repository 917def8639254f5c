pub mod Lines
pub mod Listing
pub mod Inner
