pub mod Residue
pub mod Folded
