pub mod ForwardBytes
pub mod BackwardBytes
pub mod SmoothBytes
