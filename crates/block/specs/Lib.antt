pub mod Tests
pub mod TestTable
pub mod BlockAnswers
pub mod Transformable
