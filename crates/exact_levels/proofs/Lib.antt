pub mod PartByPart
pub mod Fours
pub mod Powers
