pub mod Counts
pub mod Calls
pub mod Rooms
