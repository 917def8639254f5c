pub mod Splitting
pub mod Lines
pub mod Joining
pub mod Steps
