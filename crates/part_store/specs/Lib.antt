pub mod Answers
pub mod Cells
