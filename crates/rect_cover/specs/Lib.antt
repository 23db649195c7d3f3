pub mod Cells
pub mod Covers
pub mod Chains
pub mod Heads
pub mod Vertices
pub mod Laws
pub mod Operators
