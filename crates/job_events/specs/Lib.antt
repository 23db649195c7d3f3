pub mod Applied
pub mod Folded
pub mod Logs
pub mod Replays
