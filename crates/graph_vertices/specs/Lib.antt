pub mod Counts
pub mod Makers
pub mod Making
pub mod Widening
pub mod Winning
