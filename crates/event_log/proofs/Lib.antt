mod Examples
mod Flushes
pub mod Laws
mod Reading
mod Starts
mod StayingStarted
mod Writing
