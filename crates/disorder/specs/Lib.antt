pub mod Formerly
pub mod SideBySide
