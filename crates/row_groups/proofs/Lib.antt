mod Accumulating
mod Grouping
mod Holding
mod Keys
pub mod Laws
mod Writing
