pub mod Decimals
pub mod Lines
