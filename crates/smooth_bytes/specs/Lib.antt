pub mod BytesLeft
pub mod Inner
