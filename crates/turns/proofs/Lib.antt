pub mod Turning
pub mod Angles
pub mod Chosen
