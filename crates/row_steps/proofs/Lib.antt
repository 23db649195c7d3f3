mod Chains
pub mod Laws
mod Pieces
mod Stepping
