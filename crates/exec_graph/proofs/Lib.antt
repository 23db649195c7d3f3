mod Readers
mod Counting
mod Refreshed
mod Few
mod Keeping
