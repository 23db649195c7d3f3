mod Fronts
pub mod Laws
mod Places
mod Stops
mod Taking
