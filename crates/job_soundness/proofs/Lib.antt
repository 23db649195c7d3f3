mod Deciding
mod Examples
pub mod Laws
mod Logging
mod Reading
mod Righting
mod Standing
