pub mod Lowest
pub mod Powers
pub mod Band
pub mod Outwards
pub mod ExactlyOne
pub mod Checks
