mod Alike
mod Arms
mod Kept
mod Ranges
