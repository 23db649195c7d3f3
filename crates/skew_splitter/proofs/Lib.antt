mod Steps
mod Chains
mod Shares
mod Items
mod Covers
mod Fulls
mod Decided
