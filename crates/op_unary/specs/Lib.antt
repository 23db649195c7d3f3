pub mod Accumulators
pub mod Cells
pub mod Distinct
pub mod Groups
pub mod Hashes
pub mod Keys
