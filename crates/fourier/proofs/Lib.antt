pub mod Sizes
pub mod Exact
pub mod Lines
mod FillingLines
pub mod Values
pub mod Powers
pub mod Relations
