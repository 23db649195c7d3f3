mod ByBags
mod Sharing
pub mod Laws
