pub mod Cells
pub mod Once
pub mod Inputs
pub mod Plans
pub mod Outputs
pub mod TaskRows
pub mod Parts
