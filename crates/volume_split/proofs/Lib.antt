mod Filling
mod Fewest
mod Smallest
mod Places
mod Choice
mod Examples
pub mod Laws
