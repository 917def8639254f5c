pub mod BoundAnswers
pub mod Inner
