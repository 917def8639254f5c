pub mod LinesLeft
pub mod Inner
