pub mod Numbers
pub mod Graphs
pub mod Kept
