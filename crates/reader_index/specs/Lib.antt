pub mod Tasks
pub mod Links
pub mod Kept
