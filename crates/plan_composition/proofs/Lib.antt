mod Bridging
mod Cells
mod Example
mod Files
mod Sinks
mod Truth
