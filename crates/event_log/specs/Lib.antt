pub mod Answers
pub mod Blocks
pub mod Limit
pub mod Started
