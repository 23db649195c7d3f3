pub mod Accumulators
pub mod Held
pub mod Written
