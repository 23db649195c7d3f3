pub mod Members
pub mod Levels
pub mod Pairs
