pub mod Chains
pub mod Edges
pub mod Inputs
pub mod Links
pub mod Vertices
