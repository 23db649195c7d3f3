pub mod Words
pub mod Views
pub mod Kept
pub mod Seats
