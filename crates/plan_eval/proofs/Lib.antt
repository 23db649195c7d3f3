mod Frames
mod Operated
mod Steps
mod Taken
