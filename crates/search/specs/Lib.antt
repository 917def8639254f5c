pub mod Search
pub mod SearchTests
pub mod SearchAnswers
pub mod Inner
