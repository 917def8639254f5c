pub mod PartByPart
pub mod Blocks
pub mod TwoBlocks
pub mod Twos
