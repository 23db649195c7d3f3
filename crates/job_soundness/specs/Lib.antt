pub mod Jobs
pub mod Logs
pub mod Decoded
pub mod Starts
pub mod Truth
pub mod Sound
pub mod Laws
