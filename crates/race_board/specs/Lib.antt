pub mod Reports
pub mod Tasks
pub mod Claims
pub mod Tokens
