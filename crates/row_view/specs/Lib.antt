pub mod Encoded
pub mod Operands
pub mod Views
