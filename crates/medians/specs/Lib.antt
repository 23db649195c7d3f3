pub mod Medians
