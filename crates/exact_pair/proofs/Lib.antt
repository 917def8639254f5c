pub mod Products
pub mod Lines
pub mod Joining
pub mod Steps
