pub mod Root
pub mod Turn
pub mod HalfAngle
pub mod FineQuarter
pub mod FineTurn
pub mod TableNear
