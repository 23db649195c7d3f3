pub mod Masters
pub mod Writing
pub mod Steps
