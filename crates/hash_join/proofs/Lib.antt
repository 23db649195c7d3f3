mod Building
mod Finding
mod Joins
pub mod Laws
mod Matching
mod Pairs
