pub mod BadNumbers
pub mod Depths
pub mod Ranges
pub mod Reading
pub mod Spelling
