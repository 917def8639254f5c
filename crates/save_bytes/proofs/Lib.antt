pub mod WholeCells
pub mod Told
