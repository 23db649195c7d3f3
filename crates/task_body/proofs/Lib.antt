mod Alike
mod Inputs
mod Heads
mod Chains
mod Parts
