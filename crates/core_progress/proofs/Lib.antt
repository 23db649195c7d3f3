mod Advancing
mod Counting
pub mod Laws
mod Working
