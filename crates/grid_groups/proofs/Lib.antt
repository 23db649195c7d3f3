mod Sums
mod Groups
mod Filled
mod Covers
pub mod Laws
