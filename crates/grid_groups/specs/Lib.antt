pub mod Sizes
pub mod Reads
