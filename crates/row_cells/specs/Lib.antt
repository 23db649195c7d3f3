pub mod Cutting
pub mod Held
