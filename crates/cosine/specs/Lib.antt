pub mod Root
pub mod Cosine
