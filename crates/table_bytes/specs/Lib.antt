pub mod TableLeft
