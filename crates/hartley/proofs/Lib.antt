pub mod ForwardTaken
pub mod BackwardLeft
pub mod Tables
pub mod Steps
