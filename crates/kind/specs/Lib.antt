pub mod BlockKinds
pub mod Loudness
