pub mod Bags
pub mod CowValues
pub mod Decoding
pub mod Encoding
pub mod Exprs
pub mod Hashing
pub mod Values
