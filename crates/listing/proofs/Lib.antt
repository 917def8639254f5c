mod Sizes
mod Blocks
