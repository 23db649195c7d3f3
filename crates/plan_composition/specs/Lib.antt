pub mod Tasks
pub mod Results
