mod Added
mod Adding
mod Chains
mod Counting
mod Indexing
pub mod Laws
mod Linking
