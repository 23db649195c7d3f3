pub mod Coming
pub mod Differences
pub mod Lengths
pub mod Marking
pub mod Opens
pub mod Owning
pub mod Spelled
