pub mod Listening
pub mod Answered
