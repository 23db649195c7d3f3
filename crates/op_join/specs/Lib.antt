pub mod Cells
pub mod Keys
pub mod Probes
pub mod Searches
pub mod Sides
pub mod Tables
