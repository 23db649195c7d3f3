mod Lists
mod Marking
mod Changing
mod Feeding
pub mod Laws
