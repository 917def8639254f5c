pub mod BytesLeft
pub mod Rooms
