mod Each
pub mod Laws
