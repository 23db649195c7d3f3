mod Finding
mod Items
pub mod Laws
mod Leading
mod Readers
mod Underway
