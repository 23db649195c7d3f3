pub mod Applied
pub mod Texts
