pub mod Graphs
pub mod Kept
pub mod Deploys
pub mod Counts
