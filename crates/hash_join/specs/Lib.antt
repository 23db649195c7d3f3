pub mod Fits
pub mod Held
pub mod Joined
pub mod Keys
pub mod Once
pub mod Rules
pub mod Spelled
pub mod Tables
