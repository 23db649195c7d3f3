mod Listing
mod Pairing
mod Short
mod Stops
mod Tags
pub mod Laws
