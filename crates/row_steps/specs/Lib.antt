pub mod Chained
pub mod Pieces
pub mod Shown
