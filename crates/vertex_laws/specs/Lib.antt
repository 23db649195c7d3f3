pub mod Inputs
pub mod VertexRows
