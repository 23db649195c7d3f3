mod Collecting
pub mod Laws
