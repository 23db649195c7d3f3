mod Calling
mod Due
mod Keeping
pub mod Laws
mod Losing
mod Ordered
mod Recalling
mod Shelving
mod Stepping
mod Torn
