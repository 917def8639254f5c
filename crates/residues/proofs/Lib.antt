pub mod Congruent
pub mod Residues
pub mod Folding
pub mod Prime
