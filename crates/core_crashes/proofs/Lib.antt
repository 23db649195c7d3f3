mod Appending
mod Beginning
mod Flushing
mod Growing
mod Keeping
pub mod Laws
mod Putting
mod Running
mod Since
