mod Reached
mod Stored
